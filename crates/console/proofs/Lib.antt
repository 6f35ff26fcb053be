mod TextTold
