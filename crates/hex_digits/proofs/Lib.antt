-- Laws of digits.
mod More
